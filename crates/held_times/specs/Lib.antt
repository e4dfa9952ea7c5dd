pub mod HeldTimes
