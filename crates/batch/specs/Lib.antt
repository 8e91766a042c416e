-- What the contracts cite: the items of a batch, Items; what they do one after the other, Many; a turn of the loop, Turn.
pub mod Items
pub mod Many
pub mod Turn
