pub mod MountLaws
pub mod ViewLaws
pub mod SeatLaws
pub mod SessionMounts
pub mod SessionLaws
