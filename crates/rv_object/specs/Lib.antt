pub mod HuntObject
