-- The laws of the two labels in use, from those of the schemes that they are made of.
use Rattle.std.specs.Prelude.{◌<◌, ◌≤◌}
use Rattle.std.proofs.Common.{arith}
use Rattle.labels.specs.Meaning.{Lawful}
use Rattle.labels.specs.House.{house}
use Rattle.labels.specs.Old.{old}
use Rattle.labels.specs.Lawful.{level_lawful, categories_lawful, turned_lawful, pair_lawful}

pub house_lawful : Lawful house
unfolding house
house_lawful =
    let two : 2 < 65536 = omega arith in
    let eight : 8 ≤ 32 = omega arith in
    pair_lawful 32
    (pair_lawful 16 (level_lawful 2 two) (categories_lawful 8 eight))
    (pair_lawful 16 (turned_lawful (level_lawful 2 two)) (turned_lawful (categories_lawful 8 eight)))

pub old_lawful : Lawful old
unfolding old
old_lawful = let four : 4 < 65536 = omega arith in turned_lawful (level_lawful 4 four)
