pub mod AcceptLemmas
pub mod HoldLemmas
