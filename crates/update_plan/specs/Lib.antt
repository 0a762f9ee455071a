-- Public clauses cite these: the functions of the old object as they run (Olds), the sections of the new object that
-- are placed (Placing), the functions that the update would run (Hooks), the plan or why there is none (Plan), that a plan can be carried out (Sound), that each field of
-- its sections has an address (Addresses), that each replaced function has its new code (NewCode), and what is reported
-- of an update that changes one function alone (OneFunction). What `inside` holds is the code's own.
pub mod Olds
pub mod Placing
pub mod Hooks
pub mod Plan
pub mod Sound
pub mod Addresses
pub mod NewCode
pub mod OneFunction
pub mod inside
