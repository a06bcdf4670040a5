pub mod EndLaws
pub mod ForbiddenLaws
pub mod ValueLaws
pub mod WhatLaws
pub mod CountLaws
pub mod KindLaws
