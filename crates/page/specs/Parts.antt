-- What the page program writes, one band at a time. That its parts make up the page is `page_written` in proofs/PageParts.antt.
use Rattle.std.specs.Prelude.{ℕ, List}
use Rattle.model.specs.Answers.{Outcome, gives, refuses}
use Rattle.model.specs.Listing.{refusal_line}
use Rattle.model.specs.Page.{Band, page_band}

-- a band, or a refusal's number alone, behind which there is nothing
unfoldable pub part_of : Outcome Band → Band
part_of (gives b) = b
part_of (refuses k) = record { text = refusal_line k; next = 0 }

-- what is written for a place of an input, and the next place
abbrev pub page_part : List ℕ → ℕ → Band
page_part input at = part_of (page_band input at)
