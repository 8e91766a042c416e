-- The functions' answers over plain variables: which datagrams are answered, Chosen and Answered; the reply, Making; whether and how it goes, Going; its octets, Written.
-- And the laws: when one is made and what is then so, Made; what is so of one that goes, Goes; that no route is read, Routes; what is so of its request,
-- Requested; what its addresses name, Meaning; that it reads back, ReadBack; and that no relay answers it, Unanswered. Assumes nothing.
pub mod Chosen
pub mod Making
pub mod Going
pub mod Answered
pub mod Written
pub mod Made
pub mod Goes
pub mod Routes
pub mod Requested
pub mod Meaning
pub mod ReadBack
pub mod Unanswered
