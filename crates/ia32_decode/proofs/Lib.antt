pub mod PlainHead
pub mod Locality
pub mod Lookup
pub mod Readings
pub mod Jumps
pub mod FieldOrder
pub mod WideForms
pub mod WideFormsRest
