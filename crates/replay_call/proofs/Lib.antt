mod Beginning
mod Judging
