mod FrameLaws
mod LeastLaws
mod ListLaws
mod TouchedLaws
mod MovedLaws
mod EventLaws
