-- What the code has in the middle of a session, which only contracts inside this crate cite.
pub mod LineEnds
pub mod Loading
pub mod InStep
pub mod ScriptEnds
pub mod Trying
pub mod WholeTurns
