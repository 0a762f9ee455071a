-- Public clauses cite Poke (what the three writes of an update come to) and Interleaved (that whatever threads do
-- between them is what the machine does).
pub mod Poke
pub mod Interleaved
