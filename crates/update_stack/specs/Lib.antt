-- Public clauses cite the abstract machine (AbstractMachine and its Events, by Steps, Apply and Undo, and by HookRuns and
-- Hooks where functions run at an update), that such an update is one as any other and changes data besides (Hooked, with
-- Aside), that new code is reached (Reached) and stays so (Stays), what an accepted update lies on (Accepted), that undoing
-- restores what was (TakenBack), data that are put back (PutBack), what stands for the machine (StandsFor), its steps beside those of a
-- memory with its jumps (Jumps), both also in each phase of its newest update (Phases and PhaseSteps), and a system seen
-- as it (Systems), with what holds of it and of what it keeps (Stacked, with Scratch) and of updates that can be taken out
-- from among others (Uncovered). What `inside` holds is the code's own.
pub mod AbstractMachine
pub mod Scratch
pub mod Steps
pub mod Apply
pub mod Undo
pub mod PutBack
pub mod Aside
pub mod HookRuns
pub mod Hooks
pub mod Hooked
pub mod Events
pub mod Reached
pub mod Accepted
pub mod Stays
pub mod TakenBack
pub mod StandsFor
pub mod Jumps
pub mod Stacked
pub mod ScratchLaws
pub mod Phases
pub mod PhaseSteps
pub mod Uncovered
pub mod Systems
pub mod inside
pub mod laws
-- Definitions of crates below that other rooms cite, and that come through this one.
pub use Rattle.stack_scan.specs.Standing
pub use Rattle.update_plan.specs.Plan
pub use Rattle.update_plan.specs.Sound
pub use Rattle.update_plan.specs.declared.types.Plan as PlanType
