-- Public clauses cite Clear (what the check of the threads keeps away from frames), Windows (what events leave of
-- the addresses at which code is met) and Slots (what updates leave of the stacks and the threads).
pub mod Clear
pub mod Slots
pub mod Windows
