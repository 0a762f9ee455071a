-- Public clauses cite Restored: that all of an update is taken back where one of the functions fails that run at it. What
-- such an update comes to is said beside the machine's other events (Hooks in update_stack). Lists and Runs are the code's
-- own: whether an object lists functions, and what is made ready before these are run and left after them.
pub mod Lists
pub mod Runs
pub mod Restored
