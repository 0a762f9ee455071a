mod Unknowns
mod Bodies
mod HeldLaws
mod TwinLaws
pub mod NumberLaws
pub mod PointLaws
pub mod CandidateLaws
mod WithinLaws
pub mod RangeLaws
pub mod ChoiceLaws
pub mod MapLaws
mod FirstClaims
pub mod OrderLaws
pub mod LeftLaws
mod RemainLaws
mod SolveLaws
mod Members
mod SolutionLaws
mod RefusalLaws
mod OnlyLaws
mod SolvedLaws
mod AlikeLaws
mod AnsweredLaws
mod GoalLaws
mod AssignmentLaws
mod ListedLaws
mod OpenLaws
mod OnlyAssignment
