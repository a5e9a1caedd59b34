-- What the line of a setting that is advised says.
use Rattle.std.specs.Prelude.{◌≡◌, ◌++◌, ℕ, List, [], ◌∷◌, Ok, codes}
use Rattle.mst_lang.specs.Reading.{reading_as}
use Rattle.mst_lang.specs.declared.line.Edit.{Edit}
use Rattle.mst_lang.specs.declared.line.Line.TheVariants.{Edit as edit}
use Rattle.mst_lang.specs.declared.line.Version.TheVariants.{V2}

-- a line of text is `edit` and, behind a space, a line of a script of version 2 that is read as this edit
pub record SaysEdit (text : List ℕ) (made : Edit) : Type 0 where
  pub line : List ℕ
  pub said : text ≡ codes "edit " ++ (line ++ 10 ∷ [])
  pub read : reading_as V2 line ≡ Ok (edit made)
