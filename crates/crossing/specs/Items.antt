-- One item crosses as one struct: the paper's number, length and place of what stands at the front of the bytes, its kind byte, and what the item holds.
use Rattle.std.specs.Prelude.{ℕ, List, eqb, pos, get_or, Ok, Err}
use Rattle.base.specs.Refusal.{accepted}
use Rattle.base.specs.Words.{pick}
use Rattle.second.specs.declared.Row.{Row}
use Rattle.item.specs.declared.Item.{Item}
use Rattle.item.specs.Item.{Front, item_of, refusal_of, place_of, length_of}
use Rattle.stream.specs.Items.{no_plan}
use Rattle.crossing.specs.declared.items.Contents.{Contents}
use Rattle.crossing.specs.declared.items.ItemAnswer.{ItemAnswer}

-- all zeros, where there is no second
abbrev pub no_row : Row
no_row = record { state = 0; speed = 0; altitude = pos 0; co2 = 0; nox = 0 }

-- what an item holds: a plan or a second, and zeros for the other
unfoldable pub contents_of : Item → Contents
contents_of (Item.Plan plan) = record { row = no_row; plan = plan }
contents_of (Item.Second row) = record { row = row; plan = no_plan }

-- zeros, where the front is refused
abbrev pub no_contents : Contents
no_contents = record { row = no_row; plan = no_plan }

unfoldable pub contents_at : Front → Contents
contents_at (Ok (item, size)) = contents_of item
contents_at (Err refusal) = no_contents

-- the answer's struct
abbrev pub item_answer : ℕ → ℕ → Contents → ℕ → ℕ → ItemAnswer
item_answer refusal kind contents length place =
    let row = contents.row in
    record { refusal = refusal; kind = kind; speed = row.speed; altitude = row.altitude; co2 = row.co2; nox = row.nox; plan = contents.plan; length = length; place = place }

-- the kind of an item that is accepted is its first byte
unfoldable pub front_across : ℕ → Front → ItemAnswer
front_across byte front = item_answer (refusal_of front) (pick (eqb (refusal_of front) accepted) byte 0) (contents_at front) (length_of front) (place_of front)

abbrev pub item_across : List ℕ → ItemAnswer
item_across bytes = front_across (get_or bytes 0 0) (item_of bytes)
