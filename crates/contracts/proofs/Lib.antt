-- What is proved of the contracts of all calls from C. To be read: Rows (the contract of each call says what its row of the table says, and no more;
-- it leaves no choice), Answers (each has a result that it allows), Given (it is what the theorem of the code gives, and nothing is asked before).
-- The others serve these: OneResult, that a row leaves no choice; Formed, which boards and states words hold; Kept, that each call leaves such ones.
pub mod OneResult
pub mod Rows
pub mod Formed
pub mod Kept
pub mod Answers
pub mod Given
