mod ReadLaws
mod SaveLaws
mod RestoreLaws
mod DifferLaws
