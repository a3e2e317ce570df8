mod NumberLaws
mod ShareLaws
