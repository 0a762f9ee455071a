-- Public clauses cite Session (a whole session and its ends), by Watching, Replies, Answers, Running, Lines and Places,
-- Safety (what the discipline of a run is good for) and Premise (that `watch` prints whether a run keeps it). What
-- `inside` holds is the code's own.
pub mod Places
pub mod Lines
pub mod Running
pub mod Watching
pub mod Replies
pub mod Answers
pub mod Session
pub mod Safety
pub mod Premise
pub mod inside
