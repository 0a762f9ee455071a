-- Public clauses cite Saved: the bytes of data that are copied and put back.
pub mod Saved
