-- Public clauses cite Discipline (what each event comes to), by Frames (the threads that are watched), and Conditions
-- (what is known where an event is noted). What `inside` holds is the code's own.
pub mod Frames
pub mod Discipline
pub mod Conditions
pub mod inside
