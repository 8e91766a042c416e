-- The customer's three demands, each a record with a field for every sentence: Demand1, Demand2, Demand3; what is promised of floods over any steps, Floods;
-- of echo messages, Echoes; what two customers who share a board are promised of each other, Apart; and that a batch is the single calls of its items, Batches. They
-- are said of traces of C calls (Trace), and of what C reads out of the results (ReadOut).
pub mod Trace
pub mod ReadOut
pub mod Demand1
pub mod Demand2
pub mod Demand3
pub mod Floods
pub mod Echoes
pub mod Apart
pub mod Batches
