pub mod CountSteps
pub mod CapLaws
pub mod SizeLaws
pub mod DepthLaws
