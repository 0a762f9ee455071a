-- Words and Asks are what a reader has to believe; what stands in inside is cited by the contracts of private functions.
pub mod Words
pub mod Asks
pub mod inside
