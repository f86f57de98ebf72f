-- `listing::main` is safe and ends: the room that it lends is as long as every listing may be.
use mathlib.Core.Path.{sym}
use lib.Seq.{length-take-le}
use borrow.Author.Rules.{rules}
use Rattle.listing.proofs.main.Goals as goal

pub slice_bounds-so_far-end : goal.slice_bounds-so_far-end
slice_bounds-so_far-end c = sym (length-take-le c.listing_room.result c.list-end.new.room (search rules))
