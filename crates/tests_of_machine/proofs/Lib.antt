pub mod StackOfThread
