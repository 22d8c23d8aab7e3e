-- The words of a line on its own.
use Rattle.text_lines.proofs.Prelude.{◌≡◌, ℕ, List, [], ◌∷◌, append-nil, refl, ap, ◌∙◌, Comments, FromHash, Absent, between_feeds, without_empty_end, visible, line_tokens, tokens_from, tokens_of}

by_pieces : (comments : Comments) (line : List ℕ) → tokens_from comments 1 0 (without_empty_end (line ∷ [])) ≡ line_tokens 1 0 (visible comments line)
by_pieces FromHash [] = refl
by_pieces Absent [] = refl
by_pieces comments (b ∷ line) = append-nil (line_tokens 1 0 (visible comments (b ∷ line)))

-- they are the words of the text that the line is
pub alone_tokens : (comments : Comments) (line : List ℕ) → between_feeds line ≡ line ∷ [] → tokens_of comments line ≡ line_tokens 1 0 (visible comments line)
alone_tokens comments line one = ap (λ ps. tokens_from comments 1 0 (without_empty_end ps)) one ∙ by_pieces comments line
