-- The copies side by side, as they lie in the memory (RULES 11.8): the cases that the contracts of code cite, of what is defined over a place.
use Rattle.std.specs.Prelude.{ℕ, List}
use Rattle.names.specs.declared.Card.{Card}
use Rattle.names.specs.declared.Register.{Register}
use Rattle.names.specs.Placement.{Placement}
use Rattle.claims.specs.Found.{Found}
use Rattle.tables.specs.Layout.{side_by_side, copy_at}
use Rattle.tables.specs.Panel.{value_shown_at, copies_shown_at}
use Rattle.tables.specs.Shows.{StoreShowsAt}

abbrev pub copy_of : List ℕ → ℕ → ℕ → ℕ
copy_of = copy_at side_by_side

abbrev pub value_shown : List ℕ → List ℕ → Card → Register → ℕ
value_shown rs cs card x = value_shown_at side_by_side rs cs card x

abbrev pub copies_shown : List ℕ → List ℕ → Register → List ℕ
copies_shown rs cs x = copies_shown_at side_by_side rs cs x

abbrev pub StoreShows : List ℕ → List ℕ → Placement → Found → Type 0
StoreShows rs cs P s = StoreShowsAt side_by_side rs cs P s
