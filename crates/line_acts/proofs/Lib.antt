pub mod AnswerLaws
pub mod RefusalLaws
pub mod WalkLaws
pub mod FaultLaws
pub mod ChangeLaws
pub mod JoinLaws
pub mod ReadLaws
pub mod Laws
