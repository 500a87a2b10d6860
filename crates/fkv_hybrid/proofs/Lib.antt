pub mod ByteLemmas
pub mod ReceiptLemmas
pub mod FrameLemmas
pub mod PageLemmas
pub mod PutLemmas
pub mod EditLemmas
pub mod MoveLemmas
pub mod FlushLemmas
pub mod HeldLemmas
pub mod ReadLemmas
pub mod DifferenceLemmas
mod ValueLemmas
pub mod WholeLemmas
pub mod ScanLemmas
