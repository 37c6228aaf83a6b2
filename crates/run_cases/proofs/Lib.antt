pub mod SeatedLanes
