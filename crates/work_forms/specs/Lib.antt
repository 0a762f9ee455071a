-- Public clauses cite Program (the image of a work), Commands (those of its script), ObjectFiles (what is read in an
-- object file that was written of sections) and Sections (those of a work's objects, as they are compared): all are what
-- a reader has to believe.
pub mod Program
pub mod Commands
pub mod ObjectFiles
pub mod Sections
