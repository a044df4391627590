-- What holds of a book whenever it is opened.
use Rattle.std.specs.Prelude.{◌≡◌, List}
use Rattle.tally.specs.Book.{Terms, View}
use Rattle.tally.specs.Events.{Event}
use Rattle.tally.specs.Law.{Settled}
use Rattle.tally.specs.Runs.{shown}

-- some run of calls led to what the book shows, and the settlement law holds of it
pub record Stated (c : Terms) (v : View) : Type 0 where
  pub run : List Event
  pub shows : v ≡ shown c run
  pub settled : Settled c run
