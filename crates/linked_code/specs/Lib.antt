-- Public clauses cite Filled (an instruction in whose fields other numbers stand) and Standing (a section's code that
-- stands in memory with its fields filled).
pub mod Filled
pub mod Standing
