pub mod Source
pub mod Bytes
pub mod BytesLaws
pub mod Grouping
pub mod GroupingLaws
pub mod Either
pub mod EitherLaws
pub mod Window
