-- The laws of marks, passes and questions, and the promises.
pub mod Examples
pub mod MarkLaws
pub mod HeldLaws
pub mod RepeatLaws
pub mod RunLaws
pub mod SharedLaws
pub mod AskLaws
pub mod AllMarked
pub mod PairListLaws
pub mod CountLaws
pub mod AcceptLaws
pub mod NewSetLaws
pub mod PromiseLaws
pub mod BackLaws
pub mod PassLaws
