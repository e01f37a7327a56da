mod RunLaws
pub mod LaneRuns
pub mod SeveralStates
pub mod StateLaws
pub mod SavedLaws
pub mod SavedBlake2b
pub mod SavedBlake2s
pub mod ManyBlake2b
pub mod ManyBlake2s
