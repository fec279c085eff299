-- `embedding::listing::Listing::push_all` meets its contract. The loop's invariant: the first k cells are listed.
use lib.ListN.{take}
use Rattle.embedding.specs.Appending.{IsLent, Listed}
use Rattle.embedding.proofs.listing.Listing.push_all.Given as goal

abbrev pub invariant-loop-k : goal.invariant-loop-k
invariant-loop-k l = record { lent : IsLent l.initial.self l.self; listed : Listed l.at (take l.k l.cells) l.initial.self l.self }
