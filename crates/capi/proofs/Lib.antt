-- The laws that the proofs cite.
pub mod MapLaws
pub mod CallLaws
pub mod QueryLaws
pub mod MakeLaws
pub mod SaveLaws
pub mod FeedLaws
