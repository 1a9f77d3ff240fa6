-- Texts and source files, each listed once, with the index that it is listed at.
use Rattle.std.specs.Prelude.{◌≡◌, ℕ, Bool, ◌==◌, ◌&&◌, List, map}
use Rattle.std.specs.BTreeMap as btree
use Rattle.std.specs.Borrow.{Bor}
use Rattle.std.specs.HashMap.{get}
use Rattle.std.specs.Ordering.{nat_cmp, ordering_then}
use Rattle.std.specs.Str.{bytes_eq}
use Rattle.std.specs.declared.cmp.Ordering.{Ordering}
use Rattle.bz_gsym_layout.specs.Listed.{HasIndexes}
use Rattle.bz_gsym_layout.specs.Numbering.{firsts}
use Rattle.bz_gsym_layout.specs.declared.plan.SourceFile.{SourceFile}
use Rattle.bz_gsym_layout.specs.declared.sources.Sources.{Sources}
use Rattle.bz_gsym_layout.specs.declared.texts.Texts.{Texts}

abbrev pub listed_texts : Texts → List (List ℕ)
listed_texts t = map (λ text. text.now) t.listed.items

abbrev pub same_text : Bor (List ℕ) → Bor (List ℕ) → Bool
same_text a b = bytes_eq a.now b.now

abbrev pub text_of : Bor (List ℕ) → List ℕ
text_of text = text.now

-- the texts were used in this order
pub record AreTexts (used : List (List ℕ)) (t : Texts) : Type 0 where
  pub listed : listed_texts t ≡ firsts bytes_eq used
  pub indexes : HasIndexes (get same_text t.indexes) text_of bytes_eq (listed_texts t)

abbrev pub same_file : SourceFile → SourceFile → Bool
same_file a b = a.dir == b.dir && a.name == b.name

abbrev pub pair_cmp : ℕ × ℕ → ℕ × ℕ → Ordering
pair_cmp a b = ordering_then (nat_cmp a.0 b.0) (nat_cmp a.1 b.1)

abbrev pub file_of : ℕ × ℕ → SourceFile
file_of pair = record { dir = pair.0; name = pair.1 }

-- the map has the indexes of the source files
abbrev pub HasFileIndexes : Sources → Type 0
HasFileIndexes s = HasIndexes (btree.get pair_cmp s.indexes) file_of same_file s.listed.items
