pub mod Keeping
pub mod StoreLaws
pub mod CodeLaws
pub mod FlowLaws
pub mod FaultLaws
