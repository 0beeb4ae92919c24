-- The place of a record in a roll. Assumes nothing.
use Rattle.records.specs.declared.forms.Record.{Record}
use Rattle.records.specs.declared.forms.Record.TheVariants as record_of
use Rattle.roll.specs.declared.places.Place.{Place}
use Rattle.roll.specs.declared.places.Place.TheVariants.{User, Group, Object}

abbrev pub place_of : Record → Place
place_of (record_of.User u) = User u.number
place_of (record_of.Group g) = Group g.number
place_of (record_of.Object o) = Object o.number
