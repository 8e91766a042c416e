-- What the contracts cite: which datagrams are answered, Request; the reply that is made, Reply; whether and how it goes, Replied.
pub mod Request
pub mod Reply
pub mod Replied
