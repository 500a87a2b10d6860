mod FlushLemmas
mod OnwardLemmas
mod WorkLemmas
mod DriveLemmas
mod PartLemmas
mod AtOnceLemmas
mod StoreLemmas
mod ClearLemmas
mod RelocateLemmas
mod CountLemmas
mod ListingLemmas
pub mod MergeLemmas
mod WaitLemmas
mod RoomLemmas
mod CauseLemmas
mod ReadLemmas
mod TidiedLemmas
