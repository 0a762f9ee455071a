pub mod PutLaws
pub mod PieceLaws
pub mod FenceLaws
pub mod JumpLaws
pub mod KeptLaws
pub mod WithdrawLaws
pub mod PastLaws
pub mod TakeLaws
