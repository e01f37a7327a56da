mod FourLeaves
pub mod LeafUpdateLaws
mod MessageLeaves
mod JoinedRanges
mod NodeLemmas
mod OpenLeaves
mod PieceLengths
pub mod PlanDigests
mod PlanParts
pub mod RangeLaws
mod RangeWrites
pub mod RootsOfCalls
