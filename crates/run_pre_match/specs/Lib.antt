-- Public clauses cite Candidate and Matched (what comes of a candidate), Match (what a match is, with no order in which
-- anything is found), Bodies (where an offset stands in a running body) and Borrowed (what an unknown is whose name is
-- borrowed), and laws Alike (memories in which all of this is the same) and Places (where claims and interiors stand).
-- What comes of a candidate stands on Goals, WideForms, Found and Differences. The lists of instructions and what lies in
-- read-only memory are those of match_instructions and match_constants. What `inside` holds is the code's own.
pub mod Candidate
pub mod Goals
pub mod WideForms
pub mod Found
pub mod Differences
pub mod Borrowed
pub mod Matched
pub mod Match
pub mod Places
pub mod Bodies
pub mod Alike
pub mod inside
