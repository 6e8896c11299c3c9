pub mod RowLaws
pub mod RunLaws
pub mod RisingLaws
pub mod PutLaws
pub mod KeptLaws
pub mod StagedLaws
pub mod MarkLaws
pub mod SpreadLaws
