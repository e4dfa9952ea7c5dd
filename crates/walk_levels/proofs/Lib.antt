pub mod OwnFrames
