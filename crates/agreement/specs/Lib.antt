pub mod EitherWay
