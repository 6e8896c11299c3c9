pub mod ResolveLaws
pub mod PlanLaws
pub mod EventLaws
pub mod RefusalLaws
pub mod LeafLaws
pub mod LineLaws
pub mod LoopLaws
pub mod Laws
