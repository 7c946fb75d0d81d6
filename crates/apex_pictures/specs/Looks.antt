-- What all pictures as SVG have.
use Rattle.std.specs.Prelude.{ℕ, List, [], ◌∷◌, codes}
use Rattle.apex_moments.specs.Texts.{texts}

-- the look of the marks, and the white behind them
unfoldable pub style_text : List ℕ
style_text = texts (
    codes "<style>text{fill:#222}.core{font-weight:bold;fill:#555}.now{fill:#333}" ∷
    codes ".number{fill:#555;font-size:10px;text-anchor:middle}.time{stroke:#999}" ∷
    codes ".RUNNING{fill:#2f7d32}.READY{fill:#8fce92}.WAITING{fill:#dfe3e6}" ∷
    codes ".DORMANT{fill:#fff;stroke:#ddd}.owns{fill:#c62828}" ∷
    codes ".ring{fill:#fff;stroke:#111;stroke-width:1.5}path{stroke:#fff}" ∷
    codes "line{stroke-width:1.5;stroke-dasharray:3,2}" ∷
    codes "line.time{stroke-width:1;stroke-dasharray:none}.woken{fill:#1e88e5}" ∷
    codes "line.woken{stroke:#1e88e5}.released{fill:#8e24aa}line.released{stroke:#8e24aa}" ∷
    codes "path.missed{fill:none;stroke:#e53935;stroke-width:2}" ∷
    codes "line.missed{stroke:#e53935}.departs{fill:#c62828}" ∷
    codes "line.departs{stroke:#c62828;stroke-width:2;stroke-dasharray:none}" ∷
    codes "</style>\n<rect width='100%' height='100%' fill='#fff'/>\n" ∷ [])

-- the meaning of each mark
unfoldable pub meanings_text : List ℕ
meanings_text = texts (
    codes "<rect class='RUNNING' x='20' y='0' width='16' height='10'/><text x='40' y='9'>running</text>" ∷
    codes "<rect class='READY' x='105' y='0' width='16' height='10'/><text x='125' y='9'>ready</text>" ∷
    codes "<rect class='WAITING' x='180' y='0' width='16' height='10'/><text x='200' y='9'>waiting</text>" ∷
    codes "<rect class='DORMANT' x='265' y='0' width='16' height='10'/><text x='285' y='9'>dormant</text>" ∷
    codes "<rect class='owns' x='355' y='4' width='16' height='3'/><text x='375' y='9'>owns a mutex</text>" ∷
    codes "<circle class='ring' cx='475' cy='5' r='4'/><text x='485' y='9'>caller</text>" ∷
    codes "<path class='woken' d='M540,0 h10 l-5,9 z'/><text x='554' y='9'>woken</text>" ∷
    codes "<path class='released' d='M610,0 h10 l-5,9 z'/><text x='624' y='9'>released</text>" ∷
    codes "<path class='missed' d='M691,-1 h18 v12 h-18 z'/><text x='714' y='9'>missed</text>" ∷ [])

-- the end of the file: a script that keeps the labels in sight
unfoldable pub end_text : List ℕ
end_text = texts (
    codes "</g>\n</g>\n<script>\n" ∷
    codes "addEventListener('scroll',()=>document.getElementById('labels')" ∷
    codes ".setAttribute('transform','translate('+scrollX+',0)'))" ∷
    codes "\n</script>\n</svg>\n" ∷ [])
